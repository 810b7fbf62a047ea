pub mod WellFormed
pub mod Fitting
pub use Rattle.script_rules.specs.of_body_check
pub use Rattle.script_rules.specs as of_script_rules
pub use Rattle.script_rules.specs.of_script_program
pub use Rattle.script_rules.specs.of_written_types
