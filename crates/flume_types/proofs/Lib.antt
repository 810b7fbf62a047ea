pub mod CellLemmas
pub mod DepthLemmas
pub mod PartLemmas
pub mod SameLemmas
pub mod TypingLemmas
