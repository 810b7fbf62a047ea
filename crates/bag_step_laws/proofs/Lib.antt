pub mod Counting
pub mod GroupRows
pub mod Sides
pub mod Tops
pub mod Wholes
