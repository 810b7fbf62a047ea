pub mod CheckedLemmas
pub mod FoundLemmas
pub mod StateLemmas
