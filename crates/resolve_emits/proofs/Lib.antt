pub mod Counting
pub mod Params
pub mod Laws
pub mod Lent
