pub mod Lossy
pub mod Ended
pub mod Plain
pub mod Files
