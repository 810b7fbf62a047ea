pub mod Comes
pub mod Running
pub mod SortedRules
