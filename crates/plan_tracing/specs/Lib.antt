pub mod Lists
pub mod Refined
pub mod inner
pub use Rattle.plan_check.specs as of_plan_check
pub use Rattle.plan_file_law.specs as of_plan_file_law
pub use Rattle.plan_file_law.specs.of_plan_files
