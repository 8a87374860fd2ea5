pub mod Bodied
pub mod Glance
