pub mod Laws
pub mod Lent
pub mod NoLet
