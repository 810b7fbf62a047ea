pub mod Numbers
pub mod Edges
pub mod Order
pub mod Checks
pub mod Objects
