pub mod Lists
pub mod Rows
pub mod Runs
pub mod RunLaws
pub mod Issues
pub mod Payments
pub mod Owed
pub mod Owing
