pub mod Choosing
pub mod Flagging
