-- What writing and reading a sheet answers, and how the calls of this crate go.
pub mod Sheets
pub mod Steps
