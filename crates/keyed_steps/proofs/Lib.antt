pub mod TypedFacts
pub mod Stepping
pub use Rattle.bag_groups.proofs as of_bag_groups
pub use Rattle.combine_table.proofs as of_combine_table
pub use Rattle.flume_types.proofs as of_flume_types
pub use Rattle.flume_value.proofs as of_flume_value
