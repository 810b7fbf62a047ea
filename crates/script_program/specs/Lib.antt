pub mod Limits
pub mod Kinds
pub mod Script
pub mod Program
pub mod Needed
pub mod Rested
pub mod Saved
pub mod Sources
pub mod inner
pub use Rattle.body_check.specs as of_body_check
pub use Rattle.body_check.specs.of_expression_check
pub use Rattle.body_check.specs.of_expression_types
pub use Rattle.body_check.specs.of_written_types
