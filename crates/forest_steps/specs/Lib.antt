pub mod Answers
pub mod Functions
pub mod Safety
pub mod Running
pub mod Turns
pub mod Fresh
pub mod Places
pub mod inner
pub use Rattle.exec_graph.specs as of_exec_graph
