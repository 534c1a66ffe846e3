pub mod Scales
pub mod Walks
pub mod Counts
pub mod Rounds
pub mod Arrivals
pub mod YesNo
pub mod LeastTotal
