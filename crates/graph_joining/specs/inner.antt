pub mod Flags
pub mod Refits
pub mod Apart
pub mod Joined
pub mod Tests
