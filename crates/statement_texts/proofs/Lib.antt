pub mod Apart
pub mod Passed
