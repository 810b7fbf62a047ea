pub mod RecordFacts
pub mod RowFacts
pub mod TypeFacts
pub mod LawFacts
pub mod Literals
pub mod Splitting
pub mod JoinFacts
