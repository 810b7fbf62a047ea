pub mod Options
pub mod Words
pub mod Cached
pub mod Held
pub mod Workloads
