pub mod Arguments
pub mod Operations
pub mod Repeats
pub mod Rules
pub use Rattle.script_program.specs.of_body_check
pub use Rattle.script_program.specs.of_expression_check
pub use Rattle.script_program.specs as of_script_program
pub use Rattle.script_program.specs.of_written_types
