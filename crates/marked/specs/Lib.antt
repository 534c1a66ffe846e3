pub mod Graphs
pub mod Limits
pub mod Rates
pub mod Answers
pub mod Laws
pub mod Rounds
