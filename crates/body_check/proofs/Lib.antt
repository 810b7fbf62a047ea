pub mod BlockLemmas
pub mod BodyLemmas
pub mod FormLemmas
pub mod FrameLemmas
pub mod FunctionLemmas
pub mod GoesLemmas
pub mod OutputLemmas
pub mod PlacedLemmas
pub mod SightLemmas
pub mod StatementLemmas
pub use Rattle.expression_check.proofs as of_expression_check
pub use Rattle.expression_check.proofs.of_written_types
