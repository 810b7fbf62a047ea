pub mod Faults
pub mod Checked
pub use Rattle.optimise.specs as of_optimise
