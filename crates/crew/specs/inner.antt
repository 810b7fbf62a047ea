pub mod Turns
pub mod Fates
