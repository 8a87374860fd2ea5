pub mod Steps
pub mod Answers
pub mod Judged
pub mod Determined
