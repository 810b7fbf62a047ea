pub mod AskLemmas
pub mod FileLemmas
pub mod OutputLemmas
pub mod SaidLemmas
