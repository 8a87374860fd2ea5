pub mod Said
pub mod Rows
pub mod Reasons
pub mod Room
pub mod Found
pub mod Demands
