pub mod Along
pub mod Listed
pub mod Named
pub mod Stepping
pub mod Together
pub use Rattle.build_law.proofs as of_build_law
pub use Rattle.build_law.proofs.of_direct_meaning
