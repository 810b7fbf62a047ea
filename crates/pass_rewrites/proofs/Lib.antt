pub mod Lists
pub mod Sinking
pub mod Fusing
pub mod Ascending
pub mod Lesser
pub mod LesserKids
pub mod FusedList
pub mod Marking
pub mod Refined
pub use Rattle.optimise.proofs.of_form_laws
pub use Rattle.fuse_chain.proofs as of_fuse_chain
