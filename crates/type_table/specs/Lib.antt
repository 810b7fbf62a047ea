pub mod Table
pub mod inner
pub use Rattle.flume_types.specs as of_flume_types
