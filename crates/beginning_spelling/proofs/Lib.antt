pub mod Fillings
pub mod FilledExpressions
pub mod FilledScripts
pub mod FilledTypes
pub mod PlainTokens
pub mod Written
