-- Laws that the proofs of this crate's functions apply to the places of their code.
pub mod ZeroLaws
pub mod SignedLaws
