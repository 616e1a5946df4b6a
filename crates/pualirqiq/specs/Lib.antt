-- What the calls of the C interface promise beyond the crates below.
pub mod Calls
