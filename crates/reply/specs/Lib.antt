-- What a write did, in code and in the rule.
pub mod Outcome
pub mod Steps
