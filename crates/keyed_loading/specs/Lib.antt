pub mod Files
pub mod Keyed
