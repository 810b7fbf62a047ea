pub mod Tasks
pub mod Channels
