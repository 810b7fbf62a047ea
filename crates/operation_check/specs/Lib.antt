pub mod inner
pub use Rattle.expression_check.specs as of_expression_check
pub use Rattle.script_program.specs.of_expression_types as of_expression_types
pub use Rattle.script_program.specs.of_body_check
pub use Rattle.script_program.specs as of_script_program
pub use Rattle.script_program.specs.of_written_types
