pub mod Kept
pub mod Slots
pub mod Objects
pub mod Stands
pub mod Beginnings
