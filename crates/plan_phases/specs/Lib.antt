pub mod Phases
pub mod Told
