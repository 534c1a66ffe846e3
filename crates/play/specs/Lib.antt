pub mod Answers
pub mod Kept
pub mod Trials
pub mod Words
