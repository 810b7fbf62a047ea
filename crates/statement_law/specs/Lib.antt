pub mod Lineless
pub mod Outlined
