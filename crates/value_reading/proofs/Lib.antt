pub mod Again
pub mod Digits
pub mod Leaves
pub mod LevelLemmas
pub mod Steps
pub mod Taking
pub mod Turns
pub mod Whole
