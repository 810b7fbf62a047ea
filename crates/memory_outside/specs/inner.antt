pub mod CacheRoom
pub mod Entries
pub mod Room
