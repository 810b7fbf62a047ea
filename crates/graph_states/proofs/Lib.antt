pub mod Named
pub mod Standing
pub mod Siblings
pub mod Kids
pub mod Made
pub use Rattle.graph_names.proofs as of_graph_names
pub use Rattle.graph_rewrites.proofs as of_graph_rewrites
