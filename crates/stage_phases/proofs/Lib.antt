pub mod CrossLemmas
pub mod Telling
pub mod Numbers
pub mod Mapping
pub mod Reducing
pub use Rattle.map_shard.proofs as of_map_shard
