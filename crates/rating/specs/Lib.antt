pub mod Extended
pub mod Sizings
pub mod Ratings
