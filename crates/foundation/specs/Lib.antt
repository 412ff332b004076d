pub mod Limits
pub mod Questions
pub mod Counting
