pub mod Inner
pub mod Types
pub mod Items
pub mod Lacking
pub mod Known
