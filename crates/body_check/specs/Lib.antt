pub mod Outputs
pub mod Bodies
pub mod Call
pub mod inner
pub use Rattle.expression_check.specs as of_expression_check
pub use Rattle.expression_check.specs.of_expression_types
pub use Rattle.expression_check.specs.of_written_types
