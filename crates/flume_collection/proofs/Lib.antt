pub mod Bagging
pub mod Orders
pub mod Members
pub mod Derived
pub mod TrapSets
pub mod Together
pub use Rattle.bag_groups.proofs as of_bag_groups
pub use Rattle.flume_value.proofs as of_flume_value
