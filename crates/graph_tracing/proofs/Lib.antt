pub mod Traces
pub mod Sinks
pub mod Effects
pub mod Firsts
pub mod Keepers
pub mod Waiting
pub mod Settled
pub mod Siblings
pub mod Kids
pub mod Under
pub mod Whole
pub use Rattle.pass_rewrites.proofs.of_form_laws
pub use Rattle.pass_rewrites.proofs as of_pass_rewrites
