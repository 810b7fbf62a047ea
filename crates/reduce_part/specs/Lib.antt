pub mod Reducing
pub mod inner
