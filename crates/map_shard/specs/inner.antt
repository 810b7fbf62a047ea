pub mod Fillings
pub mod Legs
pub mod Sending
pub mod Single
pub mod Takes
