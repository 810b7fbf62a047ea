pub mod Attempting
pub mod CrossLemmas
pub mod Emitting
pub mod Filled
pub mod Fitting
pub mod Handing
pub mod LastTakes
pub mod Later
pub mod Legging
pub mod Sending
pub mod Siding
pub mod Singling
pub mod Taking
pub mod Working
pub use Rattle.task_safety.proofs as of_task_safety
