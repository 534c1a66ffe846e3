pub mod Firings
pub mod Theorems
pub mod Ring
