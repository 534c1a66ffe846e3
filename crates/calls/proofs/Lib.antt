pub mod Tracing
pub mod Agreeing
pub mod Bounds
