pub mod PlaceLemmas
pub mod ScopeLemmas
pub mod TypeLemmas
pub use Rattle.written_types.proofs as of_written_types
