pub mod IntFacts
pub mod NumberFacts
