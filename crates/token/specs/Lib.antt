pub mod Tags
pub mod Reads
