pub mod BagRows
pub mod CountSteps
pub mod GroupSteps
pub mod JoinSteps
pub mod KeyRuns
pub mod Loops
pub mod RowOrder
pub mod RunLemmas
pub mod TypedRows
pub use Rattle.flume_types.proofs as of_flume_types
pub use Rattle.keyed_steps.proofs as of_keyed_steps
