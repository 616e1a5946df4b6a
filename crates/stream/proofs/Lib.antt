-- Laws that the proofs of this crate's functions apply to the places of their code, and what holds over many calls.
pub mod PlaceLaws
pub mod FeedLaws
pub mod CallLaws
pub mod StateLaws
pub mod ByteLaws
pub mod DeliveryLaws
