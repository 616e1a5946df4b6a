-- Laws of the cells' form, and what the proofs of this crate's functions apply to the places of their code.
pub mod CellLaws
pub mod ReadingLaws
pub mod RestoreLaws
pub mod BenchLaws
