pub mod Fields
pub mod Few
