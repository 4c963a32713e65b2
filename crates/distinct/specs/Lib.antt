pub mod Counted
pub mod Noted
pub mod Texts
