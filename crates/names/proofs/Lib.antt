pub mod Bytes
pub mod Table
pub mod Search
pub mod Located
pub mod Said
pub mod Marked
pub mod Several
