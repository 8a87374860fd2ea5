pub mod Words
pub mod Marks
pub mod Uses
pub mod Row
