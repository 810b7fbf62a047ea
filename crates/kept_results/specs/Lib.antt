pub mod Asked
pub mod Kept
pub mod Lists
pub mod Sizes
pub mod Keyed
pub mod Keeping
pub mod inner
pub use Rattle.saved_meaning.specs.of_direct_meaning as of_direct_meaning
pub use Rattle.saved_meaning.specs as of_saved_meaning
pub use Rattle.saved_meaning.specs.of_script_laws as of_script_laws
