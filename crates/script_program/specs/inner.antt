pub mod Tables
pub mod Flags
