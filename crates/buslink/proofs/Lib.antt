-- Laws of Buslink's definitions, and what the proofs of this crate's functions apply to the places of their code.
pub mod IdentifierLaws
pub mod IndicatorLaws
pub mod ValueLaws
pub mod SendLaws
pub mod ReceiveLaws
pub mod ArriveLaws
pub mod ExampleLaws
