pub mod Passes
pub use Rattle.optimise.specs.of_form_laws
pub use Rattle.fuse_chain.specs as of_fuse_chain
pub use Rattle.optimise.specs as of_optimise
