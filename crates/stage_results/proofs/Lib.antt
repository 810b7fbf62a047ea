pub mod MapCounting
pub mod SideBySide
pub mod Channeling
pub mod Staging
pub use Rattle.stage_phases.proofs.of_map_shard
pub use Rattle.step_counts.proofs as of_step_counts
