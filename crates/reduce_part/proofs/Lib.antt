pub mod Gathering
pub mod Channels
pub mod Values
pub mod Merging
pub mod CrossLemmas
pub mod Shuffled
