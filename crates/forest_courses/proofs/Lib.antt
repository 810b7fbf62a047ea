pub mod Trapping
pub mod Pouring
pub mod Numbering
pub mod Counting
pub mod Coursing
pub mod Worlds
pub use Rattle.task_lists.proofs as of_task_lists
