pub mod Spellable
pub mod Spelled
