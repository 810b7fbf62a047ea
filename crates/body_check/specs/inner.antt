pub mod Frames
pub mod Slots
