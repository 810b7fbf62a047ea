pub mod Hosts
pub mod Drills
pub mod Attempts
pub mod Outs
pub mod Work
pub mod Workers
pub mod Phases
pub mod inner
