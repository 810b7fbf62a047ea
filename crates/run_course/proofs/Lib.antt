pub mod GraphLemmas
pub mod ReadLemmas
pub mod PlanLemmas
pub mod StopLemmas
pub mod AlwaysLemmas
pub mod GivenUpLemmas
pub mod CompleteLemmas
pub mod LeftLemmas
pub mod CauseLemmas
pub mod AskLemmas
pub mod HostLemmas
pub mod PromiseLemmas
pub mod FileLemmas
pub mod OriginLemmas
pub mod MeaningLemmas
pub mod RunLemmas
pub use Rattle.script_loading.proofs as of_script_loading
pub use Rattle.script_loading.proofs.of_build_law
