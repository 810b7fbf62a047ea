pub mod Numbers
pub mod Forms
pub mod Reads
pub mod Written
