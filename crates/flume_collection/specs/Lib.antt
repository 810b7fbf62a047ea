pub mod Sets
pub mod Traps
pub mod Collection
pub mod Objects
pub mod Calls
pub use Rattle.bag_groups.specs as of_bag_groups
pub use Rattle.flume_value.specs as of_flume_value
