-- Bytes that stand for a sound tree (docs/FORMATS.md), and the steps of their check.
pub mod Sound
pub mod Check
