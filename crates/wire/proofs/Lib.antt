pub mod Goods
pub mod Backs
