pub mod Runs
pub mod Tasks
pub mod Lists
pub mod Outs
pub mod Plans
pub mod Typing
pub use Rattle.exec_plan.specs as of_exec_plan
