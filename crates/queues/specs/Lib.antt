pub mod Flows
pub mod Holds
pub mod Parts
pub mod Stands
pub mod Strict
