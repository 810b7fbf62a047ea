pub mod Channels
pub mod Along
