-- The modules of the proofs.
pub mod Larger
