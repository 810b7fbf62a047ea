pub mod Accepted
pub mod Asks
pub mod Causes
pub mod Limits
pub mod Loads
pub mod Ready
pub mod inner
pub use Rattle.build_law.specs as of_build_law
pub use Rattle.build_law.specs.of_direct_meaning
pub use Rattle.build_law.specs.of_graph_build
pub use Rattle.build_law.specs.of_script_laws
