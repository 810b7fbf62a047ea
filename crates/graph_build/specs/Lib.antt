pub mod Wanted
pub mod Calls
pub mod Built
pub mod Nodes
pub mod Graphs
pub mod Origins
pub use Rattle.script_program.specs as of_script_program
