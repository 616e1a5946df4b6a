-- What the calls of this crate promise, over the definitions of `protocol`.
pub mod Asked
