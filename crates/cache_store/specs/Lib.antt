pub mod Cause
pub mod Entries
pub mod Seen
