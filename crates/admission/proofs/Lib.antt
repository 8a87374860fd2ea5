-- The modules of the proofs.
pub mod Read
pub mod Stack
pub mod Deep
pub mod Marked
pub mod Walking
