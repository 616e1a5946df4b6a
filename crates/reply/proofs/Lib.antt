-- Laws that the proofs of this crate apply to the places of their code.
pub mod ReplyLaws
pub mod WriteLaws
