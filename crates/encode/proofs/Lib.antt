pub mod Measures
pub mod Zeros
pub mod Writes
pub mod Sendings
