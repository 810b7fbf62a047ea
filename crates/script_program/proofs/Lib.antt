pub mod FlagLemmas
pub mod SavedLemmas
pub mod SourceLemmas
pub mod SourceSteps
pub use Rattle.body_check.proofs.of_written_types
