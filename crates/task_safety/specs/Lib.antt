pub mod Stages
pub mod Taking
pub use Rattle.forest_courses.specs as of_forest_courses
pub use Rattle.forest_courses.specs.of_task_lists as of_task_lists
