pub mod Fitting
pub mod Places
pub mod RoomLemmas
pub mod SlotEntries
pub mod SlotLemmas
