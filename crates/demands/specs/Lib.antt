-- What the demands of document 01, and the requests of document 02, say of the calls.
pub mod Forms
pub mod Serving
pub mod Cells
pub mod MarkedCases
pub mod Requests
pub mod Demand3
pub mod Listing
pub mod StrayDle
pub mod Sheets
pub mod StepSize
pub mod PathParts
pub mod Buslink
