pub mod Minted
