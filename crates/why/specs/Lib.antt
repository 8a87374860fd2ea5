-- `Face` has what is answered, `Sought` what is sought to answer it.
pub mod Face
pub mod Sought
