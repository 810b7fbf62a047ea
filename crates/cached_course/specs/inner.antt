pub mod Found
pub mod Course
pub mod Missing
pub mod Laws
