pub mod Faults
pub mod Amounts
pub mod Split
pub mod Laws
