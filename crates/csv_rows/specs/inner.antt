pub mod Readers
pub mod Parts
pub mod Writers
