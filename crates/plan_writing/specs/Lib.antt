pub mod Lists
pub mod Naming
pub mod Places
pub mod Forests
pub mod Acts
pub mod PlanText
pub mod inner
