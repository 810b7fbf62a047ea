pub mod SameMakes
pub mod StillNeeded
pub mod Tables
pub mod Going
pub mod InTurn
pub mod Given
pub mod HandedOn
pub mod Clean
pub mod Trapped
pub use Rattle.direct_meaning.proofs as of_direct_meaning
pub use Rattle.direct_meaning.proofs.of_script_laws
