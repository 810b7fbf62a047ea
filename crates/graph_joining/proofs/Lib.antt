pub mod Rereads
pub mod Commuting
pub mod Renewing
pub mod FlagLemmas
pub mod Together
pub mod Steps
pub mod Passes
