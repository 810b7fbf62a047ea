pub mod Keys
pub mod Outlines
pub mod Rests
