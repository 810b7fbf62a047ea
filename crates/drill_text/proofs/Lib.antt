pub mod NumberLemmas
pub mod EntryLemmas
pub mod DrillLemmas
pub mod CutLemmas
pub mod LawLemmas
pub mod FirstLemmas
