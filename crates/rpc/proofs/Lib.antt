pub mod Littles
pub mod Fields
pub mod Joins
pub mod Options
