pub mod Listing
pub mod Floats
