pub mod Calling
pub mod Fitting
pub mod Sharing
