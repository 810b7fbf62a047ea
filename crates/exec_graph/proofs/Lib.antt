pub mod Bools
pub mod Entries
pub mod Solving
pub mod Numbered
pub mod Soundness
pub mod StepFacts
pub mod Derived
pub mod Typed
pub mod Spotting
pub mod Coding
pub mod Barriers
pub mod ActLemmas
pub mod Wholes
pub mod Rooted
pub mod OutCounts
pub use Rattle.flume_collection.proofs.of_bag_groups
pub use Rattle.flume_collection.proofs as of_flume_collection
pub use Rattle.bag_steps.proofs.of_keyed_steps
