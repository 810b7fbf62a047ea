pub mod States
pub mod Standings
