pub mod Holding
pub mod Certificates
pub mod Reading
pub mod Checking
pub mod Rating
pub mod Sizing
pub mod Running
