mod KindLemmas
pub mod SpotLemmas
mod GraphLemmas
