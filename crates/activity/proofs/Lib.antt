pub mod Order
pub mod Adds
pub mod Values
pub mod Posts
pub mod Activities
