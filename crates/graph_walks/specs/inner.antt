pub mod Relabels
pub mod Plants
pub mod Numbering
