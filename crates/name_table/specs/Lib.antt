-- The modules of the definitions.
pub mod Bytes
