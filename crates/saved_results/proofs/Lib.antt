pub mod FormLemmas
pub mod Kept
pub mod SizeTurns
