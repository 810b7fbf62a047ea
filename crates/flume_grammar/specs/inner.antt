pub mod Answer
pub mod Bodies
pub mod Expressions
pub mod Out
pub mod Reading
pub mod Reads
pub mod Statements
pub mod Types
