pub mod Answer
pub mod Known
pub mod Named
pub mod Written
pub mod inner
