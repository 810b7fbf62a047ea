pub mod Finding
pub mod Gathered
pub mod Lifting
pub mod Parting
pub mod Passing
pub mod Putting
pub mod Ranged
pub mod Whole
pub use Rattle.partial_tables.proofs as of_partial_tables
