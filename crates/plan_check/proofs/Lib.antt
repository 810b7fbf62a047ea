pub mod One
pub mod Narrow
pub mod Parts
