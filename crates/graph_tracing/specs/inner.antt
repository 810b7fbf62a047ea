pub mod Turns
pub mod Callers
pub mod Named
pub mod Waiting
pub mod Numbers
