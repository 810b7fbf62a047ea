pub mod ScopeLemmas
pub mod PassingLemmas
pub mod StatementLemmas
pub mod EvaluateLemmas
