pub mod Blanks
pub mod Bodies
pub mod Expressions
pub mod Moving
pub mod Plain
pub mod Statements
pub mod Texting
