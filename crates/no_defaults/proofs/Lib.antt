pub mod GraphLemmas
pub mod ReadingLemmas
pub mod RecordLemmas
pub mod ScriptLemmas
