pub mod Exact
pub mod Hashes
pub mod Numbers
pub mod Padded
pub mod Texts
