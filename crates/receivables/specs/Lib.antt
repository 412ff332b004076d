pub mod Faults
pub mod Invoices
pub mod Listed
pub mod Books
pub mod Issued
pub mod Payments
pub mod Run
pub mod Laws
