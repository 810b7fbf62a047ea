pub mod Numbers
pub mod Drills
pub mod Spelled
