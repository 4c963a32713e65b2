pub mod Cuts
pub mod Lines
pub mod Reading
pub mod Sets
pub mod Sums
pub mod Tallied
