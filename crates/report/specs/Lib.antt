pub mod Lines
pub mod Texts
pub mod Sizes
pub mod Forecasts
pub mod Files
