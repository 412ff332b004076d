pub mod Ranks
pub mod Shares
pub mod Near
pub mod Fairness
pub mod Summed
