pub mod Safely
pub mod Taken
pub mod Arguments
pub mod Standing
pub mod Fitting
pub use Rattle.forest_courses.proofs as of_forest_courses
