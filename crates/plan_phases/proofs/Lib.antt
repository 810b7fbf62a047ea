pub mod Trapping
pub mod Lasting
pub mod Asking
pub mod Joining
pub mod Stopping
