pub mod Parts
pub mod Questions
pub mod Lists
pub mod Noted
pub mod Row
pub mod Alias
