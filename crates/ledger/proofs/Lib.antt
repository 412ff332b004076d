pub mod Places
pub mod Bills
pub mod Secured
