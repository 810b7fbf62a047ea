pub mod Counts
pub mod Joins
pub mod Sides
pub mod inner
pub use Rattle.keyed_steps.specs.of_combine_table
pub use Rattle.flume_types.specs as of_flume_types
pub use Rattle.keyed_steps.specs as of_keyed_steps
