-- The modules of the definitions.
pub mod Steps
