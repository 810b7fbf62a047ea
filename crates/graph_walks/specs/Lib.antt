pub mod Halves
pub mod Outs
pub mod inner
