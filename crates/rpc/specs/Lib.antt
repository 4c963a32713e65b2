pub mod Wire
pub mod Laws
pub mod Kinds
pub mod Written
