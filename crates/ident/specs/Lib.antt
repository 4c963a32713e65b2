pub mod Classes
pub mod Idents
