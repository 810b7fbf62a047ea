pub mod Keyed
pub mod Rested
pub mod Same
pub mod Told
