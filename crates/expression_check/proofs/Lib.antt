pub mod FormLemmas
pub mod KeptLemmas
pub mod NameLemmas
pub mod OperationLemmas
pub mod OutcomeLemmas
pub mod PartsLemmas
pub mod RightLemmas
pub mod SlotLemmas
pub use Rattle.expression_types.proofs as of_expression_types
pub use Rattle.type_table.proofs as of_type_table
pub use Rattle.expression_types.proofs.of_written_types
