pub mod Held
pub mod Sixty
pub mod Rows
pub mod Walk
pub mod Item
pub mod Cutting
pub mod Made
pub mod Determined
