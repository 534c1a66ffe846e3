pub mod Forecasts
pub mod Weights
