pub mod Tables
pub mod Work
pub mod inner
pub use Rattle.task_safety.specs as of_task_safety
