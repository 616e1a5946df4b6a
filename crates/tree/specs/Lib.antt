-- How a tree lies in lent bytes (docs/FORMATS.md), and what the calls of this crate promise.
pub mod Form
pub mod Seen
pub mod Lookup
pub mod Steps
