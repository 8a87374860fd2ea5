pub mod Found
pub mod Spelled
