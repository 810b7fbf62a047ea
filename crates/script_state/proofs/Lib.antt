pub mod StandingLemmas
pub mod StateLemmas
