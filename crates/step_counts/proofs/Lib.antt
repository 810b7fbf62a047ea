pub mod Owning
pub mod Adding
pub mod Growing
