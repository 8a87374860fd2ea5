pub mod Wrote
pub mod Texts
pub mod Alike
pub mod Keys
