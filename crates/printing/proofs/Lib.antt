pub mod ListedLemmas
pub mod PrintedLemmas
