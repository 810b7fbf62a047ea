pub mod Courses
pub use Rattle.forest_steps.specs as of_forest_steps
pub use Rattle.task_lists.specs as of_task_lists
