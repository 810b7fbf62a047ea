pub mod Steady
pub mod Narrow
pub mod Numbers
pub mod Exchange
pub mod Keeping
pub mod Replaying
pub use Rattle.graph_bounds.proofs as of_graph_bounds
