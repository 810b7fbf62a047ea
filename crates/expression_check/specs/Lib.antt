pub mod Types
pub mod Given
pub mod Numbers
pub mod Slots
pub mod Right
pub use Rattle.expression_types.specs as of_expression_types
pub use Rattle.type_table.specs as of_type_table
pub use Rattle.expression_types.specs.of_written_types
