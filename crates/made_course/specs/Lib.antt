pub mod Files
pub mod Runs
pub mod Answers
pub mod Makes
pub mod inner
pub use Rattle.run_course.specs as of_run_course
