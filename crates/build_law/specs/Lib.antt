pub mod Worlds
pub mod Limits
pub mod Means
pub mod Signatures
pub use Rattle.direct_meaning.specs as of_direct_meaning
pub use Rattle.graph_build.specs as of_graph_build
pub use Rattle.direct_meaning.specs.of_script_rules
pub use Rattle.direct_meaning.specs.of_script_laws
pub use Rattle.graph_build.specs.of_script_program
