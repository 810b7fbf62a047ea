pub mod Dropping
pub mod Refilling
pub mod Sinking
pub mod Making
