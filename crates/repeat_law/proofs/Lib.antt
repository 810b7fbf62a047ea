pub mod PlaceLemmas
pub mod SameLemmas
pub mod EquationLemmas
pub mod TurnLemmas
pub mod RepeatLemmas
pub mod NameLemmas
pub mod SoundLemmas
pub mod LaterLemmas
