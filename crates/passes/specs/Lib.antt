pub mod Lookups
pub mod First
pub mod Verdicts
