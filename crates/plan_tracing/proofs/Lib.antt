pub mod Lifts
pub mod Codes
pub mod Marks
pub mod Refined
pub use Rattle.plan_check.proofs as of_plan_check
pub use Rattle.plan_file_law.proofs as of_plan_file_law
