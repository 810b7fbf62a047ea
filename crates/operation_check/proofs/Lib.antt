pub mod ArgumentLemmas
pub use Rattle.expression_check.proofs as of_expression_check
pub use Rattle.script_program.proofs.of_written_types
