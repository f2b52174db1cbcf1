pub mod Across
pub mod Choices
