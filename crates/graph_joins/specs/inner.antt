pub mod Hangs
pub mod Seeks
pub mod Splices
pub mod Takings
pub mod Tests
