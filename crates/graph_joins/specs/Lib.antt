pub mod Blocks
pub mod Counts
pub mod Lists
pub mod Present
pub mod Sessions
pub mod inner
pub use Rattle.graph_states.specs.of_graph_names
