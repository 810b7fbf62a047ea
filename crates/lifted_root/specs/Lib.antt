pub mod Lifted
pub use Rattle.task_lists.specs as of_task_lists
