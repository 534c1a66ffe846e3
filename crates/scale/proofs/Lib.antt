pub mod Choices
pub mod Once
pub mod Standing
pub mod Order
pub mod Meanings
