pub mod Outs
pub mod inner
