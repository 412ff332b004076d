pub mod Requests
pub mod Calls
pub mod Steps
pub mod Places
pub mod Histories
pub mod PastDue
pub mod Whole
