pub mod BagParts
pub mod CombiningLemmas
pub mod Grouping
pub mod MemberLemmas
pub mod PairLemmas
pub mod PairOrder
pub use Rattle.flume_value.proofs as of_flume_value
