pub mod WantedLemmas
pub mod BuiltLemmas
pub mod OutputLemmas
pub mod StepLemmas
pub mod PlaceLemmas
pub mod OriginLemmas
pub use Rattle.script_program.proofs as of_script_program
