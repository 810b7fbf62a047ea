pub mod Lists
pub mod Members
pub use Rattle.direct_meaning.specs as of_direct_meaning
