-- What the helpers of this crate leave behind. What its public functions promise is stated over the definitions of `protocol`.
pub mod Steps
