pub mod Applied
pub mod Replayed
pub mod inner
