pub mod Laws
pub mod Lookups
