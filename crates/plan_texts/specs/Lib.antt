pub mod Texts
pub use Rattle.graph_print.specs.of_graph_build
pub use Rattle.graph_print.specs as of_graph_print
pub use Rattle.graph_print.specs.of_script_program
