-- Bytes pass the check exactly where they stand for a sound tree, and every sound tree's form reads back as that tree; and what
-- the proofs of this crate's functions apply to the places of their code.
pub mod ThenLaws
pub mod ScanLaws
pub mod TableLaws
pub mod NumberLaws
pub mod NodeLaws
pub mod PropertyLaws
pub mod DepthLaws
pub mod FormLaws
pub mod CheckLaws
pub mod ByteLaws
pub mod TextLaws
pub mod ParentLaws
pub mod StepLaws
pub mod BenchLaws
