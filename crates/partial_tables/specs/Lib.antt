pub mod Cuts
pub mod Lifted
pub mod Merges
pub mod Runs
pub mod Tables
pub mod inner
