pub mod Keywords
pub mod Pieces
pub mod Signs
pub mod Texts
pub mod Tokens
pub mod Utf8
