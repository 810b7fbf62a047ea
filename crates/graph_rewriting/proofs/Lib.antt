pub mod Chain
pub mod Passes
pub mod Callers
pub mod Sinks
pub mod Standings
