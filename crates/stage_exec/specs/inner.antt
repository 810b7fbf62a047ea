pub mod Along
pub mod Objects
pub mod Places
pub mod Reads
pub mod Stages
