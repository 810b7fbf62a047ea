pub mod Bodies
pub mod Pieces
