pub mod CrossLemmas
pub mod Dividing
pub mod KeyRuns
pub mod Keying
pub mod NumberRuns
pub mod Numbering
pub mod Ordering
pub mod Pairing
