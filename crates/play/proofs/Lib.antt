pub mod Lending
pub mod Listing
pub mod Keeping
pub mod Trying
