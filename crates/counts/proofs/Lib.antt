pub mod Readiness
pub mod Bridges
pub mod Joining
pub mod Rated
