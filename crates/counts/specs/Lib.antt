pub mod Nets
pub mod Steps
pub mod Laws
pub mod Origins
