-- Laws of the lent forms, and what the proofs of this crate's functions apply to the places of their code.
pub mod FoundLaws
pub mod RecordLaws
pub mod SameLaws
pub mod NumberLaws
pub mod TextLaws
pub mod FieldLaws
pub mod RangeLaws
pub mod StepLaws
pub mod NextLaws
