pub mod EndLemmas
pub mod ListLemmas
pub use Rattle.direct_meaning.proofs as of_direct_meaning
