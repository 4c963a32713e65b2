pub mod Ascii
pub mod Words
