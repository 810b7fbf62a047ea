pub mod AcceptedLemmas
pub mod AskLemmas
pub mod InputLemmas
pub mod NameLemmas
pub mod ProgramLemmas
pub mod SinceLemmas
pub mod ToldLemmas
pub mod ToldBodies
pub mod ToldRules
pub mod ReadyLemmas
pub use Rattle.build_law.proofs as of_build_law
pub use Rattle.build_law.proofs.of_script_laws
