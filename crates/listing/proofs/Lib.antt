-- Laws that the proofs of this crate's functions apply to the places of their code.
pub mod EntryLaws
pub mod WalkLaws
pub mod ListsLaws
pub mod PrintLaws
