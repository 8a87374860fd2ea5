pub mod Off
pub mod Place
pub mod Filled
pub mod Walk
pub mod Reading
