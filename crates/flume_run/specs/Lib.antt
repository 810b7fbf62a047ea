pub mod Cached
pub mod Lent
pub mod Promises
