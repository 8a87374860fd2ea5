pub mod Burns
pub mod Burnt
pub mod Tally
pub mod Uses
