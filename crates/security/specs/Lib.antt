pub mod Funding
pub mod Instruments
pub mod Rows
