pub mod Owners
pub mod Sizes
pub mod inner
