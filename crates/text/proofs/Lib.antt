pub mod Bytes
pub mod Language
pub mod Same
pub mod Steps
