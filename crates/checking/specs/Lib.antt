pub mod Nets
pub mod Faults
pub mod Verdicts
pub mod Links
