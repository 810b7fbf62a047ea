pub mod NamedLemmas
pub mod FailsLemmas
pub mod WrittenLemmas
