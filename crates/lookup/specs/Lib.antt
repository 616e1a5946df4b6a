-- What the lookups hand back, and how they go; the rest of what they promise is stated by the definitions of `protocol` and `tree`.
pub mod Reach
pub mod Find
