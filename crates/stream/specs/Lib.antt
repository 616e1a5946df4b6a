-- The stream reader over a lent state: the form of the state, what a call gives, and lists of calls.
pub mod State
pub mod Feed
pub mod Delivery
pub mod Steps
