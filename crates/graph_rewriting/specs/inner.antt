pub mod Made
pub mod Standings
pub mod Tests
