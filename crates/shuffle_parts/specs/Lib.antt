pub mod Outs
pub mod Partitions
pub use Rattle.partial_tables.specs as of_partial_tables
