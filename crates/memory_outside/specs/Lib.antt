pub mod Caches
pub mod Calls
pub mod Hosts
pub mod Memory
pub mod Slots
pub mod inner
