-- The modules of the proofs.
pub mod Words
pub mod Fours
