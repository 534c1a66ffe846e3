pub mod Places
pub mod Sizes
pub mod Fitting
pub mod Measuring
pub mod Accepting
