pub mod held
pub mod pile
