pub mod Branching
pub mod Listing
