pub mod Cuts
pub mod Spreads
pub mod Held
pub mod Fills
pub mod Passes
pub mod Ways
