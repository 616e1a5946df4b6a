-- Laws that the proofs of this crate's functions apply to the places of their code.
pub mod LaysLaws
pub mod TextLaws
pub mod ReadLaws
pub mod UnwrittenLaws
