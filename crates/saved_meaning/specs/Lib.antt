pub mod Found
pub use Rattle.direct_meaning.specs as of_direct_meaning
pub use Rattle.direct_meaning.specs.of_script_laws
