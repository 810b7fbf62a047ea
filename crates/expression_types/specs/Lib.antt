pub mod Sight
pub mod Operators
pub mod Fields
pub mod Types
pub mod Held
pub mod Places
pub use Rattle.written_types.specs as of_written_types
