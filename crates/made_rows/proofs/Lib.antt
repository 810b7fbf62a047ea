pub mod Numbers
pub mod Columns
pub mod Decoded
pub mod Summed
pub mod Checked
pub mod Called
pub mod Meanings
