pub mod Kept
pub mod Repeats
pub mod Totals
pub mod Means
pub mod Parts
pub mod Merging
pub mod Popped
pub mod Ends
pub mod Refs
pub mod Rows
pub use Rattle.flume_value.proofs as of_flume_value
