-- Laws that the proofs of this crate apply to the places of their code.
pub mod LinesLaws
pub mod StepLaws
pub mod ProgressLaws
