pub mod Traces
pub mod Sinks
pub mod Orders
pub mod Fusions
pub mod inner
pub use Rattle.pass_rewrites.specs.of_form_laws
pub use Rattle.pass_rewrites.specs as of_pass_rewrites
