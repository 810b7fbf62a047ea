pub mod Making
pub mod Readings
pub mod Records
pub mod Steps
