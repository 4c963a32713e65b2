pub mod Bytes
pub mod Firsts
pub mod Law
