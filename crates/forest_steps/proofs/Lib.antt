pub mod Answering
pub mod Beginning
pub mod Deriving
pub mod KeptOnce
pub mod Sizing
pub mod Twigging
pub mod Visiting
