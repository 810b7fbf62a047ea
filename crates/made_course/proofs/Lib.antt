pub mod Ready
pub mod Delivered
pub mod Promised
pub mod Runs
pub mod Written
pub use Rattle.run_course.proofs as of_run_course
