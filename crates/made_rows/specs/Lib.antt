pub mod Rows
pub mod Sums
pub mod Keyed
pub mod Means
pub use Rattle.direct_meaning.specs as of_direct_meaning
pub use Rattle.direct_meaning.specs.of_script_laws
