pub mod Forests
pub mod Twigs
pub mod Spots
pub mod World
pub mod Objects
pub mod Derived
pub mod Calls
pub mod Meaning
pub mod Readers
pub mod Places
pub mod Typing
pub mod Wellformed
pub mod ObjectFree
pub mod inner
pub use Rattle.flume_collection.specs.of_bag_groups
pub use Rattle.combine_table.specs as of_combine_table
pub use Rattle.flume_collection.specs as of_flume_collection
pub use Rattle.flume_types.specs as of_flume_types
pub use Rattle.bag_steps.specs.of_keyed_steps
