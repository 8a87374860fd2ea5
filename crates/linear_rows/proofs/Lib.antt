pub mod Tallied
pub mod Judged
