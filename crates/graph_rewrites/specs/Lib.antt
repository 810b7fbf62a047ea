pub mod Exchange
pub mod Rewrites
pub mod Replays
pub use Rattle.graph_bounds.specs.of_plan_rules
pub use Rattle.graph_bounds.specs as of_graph_bounds
