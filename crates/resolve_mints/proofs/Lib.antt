pub mod Laws
pub mod Assets
