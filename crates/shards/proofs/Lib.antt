pub mod Alike
pub mod Joined
