pub mod Digits
pub mod Remarks
