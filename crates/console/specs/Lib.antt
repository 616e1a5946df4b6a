pub mod Lines
pub mod Bench
pub mod Steps
