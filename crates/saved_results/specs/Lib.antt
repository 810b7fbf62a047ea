pub mod Forms
pub mod Saved
