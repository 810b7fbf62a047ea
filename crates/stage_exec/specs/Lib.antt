pub mod Executions
pub mod inner
pub use Rattle.stage_results.specs.of_stage_phases
