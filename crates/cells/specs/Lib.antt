-- How cells lie in lent bytes (docs/FORMATS.md), and what the calls of this crate promise.
pub mod Cells
pub mod Lent
