pub mod States
pub use Rattle.graph_names.specs as of_graph_names
pub use Rattle.graph_rewrites.specs as of_graph_rewrites
pub use Rattle.fuse_chain.specs.of_pardo_fuse
