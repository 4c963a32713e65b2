pub mod Values
pub mod Back
pub mod Laws
pub mod Trees
pub mod Kept
