pub mod Keyed
pub mod Types
pub use Rattle.bag_groups.specs as of_bag_groups
pub use Rattle.combine_table.specs as of_combine_table
pub use Rattle.flume_types.specs as of_flume_types
pub use Rattle.flume_value.specs as of_flume_value
