pub mod Candidates
pub mod Requests
pub mod Answers
pub mod Laws
pub mod Trials
