pub mod Select
pub mod Judged
pub mod Lent
pub mod Between
pub mod Fresh
