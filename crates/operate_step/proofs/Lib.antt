pub mod Calling
pub mod Singling
