mod Lines
pub mod Once
mod Sources
