pub mod Replies
pub mod Reports
pub mod Carried
