pub mod Turns
pub mod Keys
pub mod Chain
pub mod Sought
