pub mod Accumulators
pub mod Combinations
pub mod Contents
pub mod inner
pub use Rattle.flume_value.specs as of_flume_value
