pub mod Repeats
pub mod Wide
