pub mod NextPieces
pub mod NoMemory
pub mod Whole
pub mod Utf8Texts
