pub mod Faults
pub mod Determinants
pub mod Ruled
pub mod Texts
