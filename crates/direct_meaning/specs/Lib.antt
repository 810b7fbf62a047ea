pub mod Calls
pub mod Objects
pub mod Direct
pub mod Inputs
pub mod Made
pub mod inner
pub mod Evaluated
pub mod Worked
pub use Rattle.body_check.specs as of_body_check
pub use Rattle.script_laws.specs.of_script_rules
pub use Rattle.script_laws.specs as of_script_laws
