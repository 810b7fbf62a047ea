pub mod Lifting
pub mod Groups
pub mod Finishing
pub use Rattle.task_lists.proofs as of_task_lists
