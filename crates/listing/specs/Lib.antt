pub mod Cut
pub mod Entries
pub mod Handles
pub mod Items
pub mod Tally
pub mod Values
