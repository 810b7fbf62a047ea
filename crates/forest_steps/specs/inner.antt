pub mod Deriving
pub mod Once
pub mod Sizes
