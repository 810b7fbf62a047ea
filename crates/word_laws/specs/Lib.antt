pub mod Parts
pub mod Grammar
pub mod CachedWords
