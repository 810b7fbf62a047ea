pub mod Answers
pub mod Asked
pub mod Asks
pub mod Hosts
pub mod Lent
pub mod Limits
pub mod Plans
pub mod Promises
pub mod Outside
pub mod Written
pub mod inner
pub use Rattle.script_loading.specs.of_build_law
pub use Rattle.script_loading.specs as of_script_loading
pub use Rattle.outer_plans.specs.of_script_plans
pub use Rattle.script_run.specs as of_script_run
