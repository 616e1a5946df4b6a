-- What the proofs of this crate's functions apply to the places of their code.
pub mod SettingLaws
pub mod LabelLaws
pub mod WriteLaws
pub mod ReadLaws
pub mod LinesLaws
pub mod SheetsLaws
