-- The demands of document 01, and what document 02 asks for, as theorems about every call that keeps its promise.
pub mod Forms
pub mod Serving
pub mod Cells
pub mod MarkedCases
pub mod Requests
pub mod Demand3
pub mod Listing
pub mod StrayDle
pub mod Sheets
pub mod StepSize
pub mod PathParts
pub mod Buslink
