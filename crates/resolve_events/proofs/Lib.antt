pub mod Absent
pub mod Lent
