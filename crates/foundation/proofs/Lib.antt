pub mod Verdicts
pub mod Totals
pub mod Firsts
