pub mod Cells
pub mod Columns
pub mod Depth
pub mod Equality
pub mod Tables
pub mod Typing
