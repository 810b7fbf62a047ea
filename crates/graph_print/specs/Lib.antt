pub mod Names
pub mod Steps
pub mod GraphText
pub use Rattle.graph_build.specs as of_graph_build
pub use Rattle.graph_build.specs.of_script_program
