pub mod Combining
pub mod Groups
pub mod Pairs
pub use Rattle.flume_value.specs as of_flume_value
