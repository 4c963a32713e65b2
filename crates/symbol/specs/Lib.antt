pub mod Held
pub mod Interning
pub mod Laws
pub mod Layout
pub mod Naming
pub mod States
