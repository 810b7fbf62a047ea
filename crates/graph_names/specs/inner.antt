pub mod Kinds
pub mod Moves
pub mod Naming
pub mod Nodes
pub mod Spots
