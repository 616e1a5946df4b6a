-- Laws that the proofs of this crate apply to the places of their code.
pub mod ReadLaws
pub mod ServeLaws
pub mod ReplyLaws
pub mod AnswerLaws
pub mod CodeLaws
