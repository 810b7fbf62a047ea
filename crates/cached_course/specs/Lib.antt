pub mod Looked
pub mod Reused
pub mod Kept
pub mod Sound
pub mod Answers
pub mod Promises
pub mod inner
