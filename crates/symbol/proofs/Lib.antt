pub mod Adding
pub mod Answering
pub mod Holding
pub mod Layouts
pub mod Numbering
pub mod Placing
pub mod Standing
