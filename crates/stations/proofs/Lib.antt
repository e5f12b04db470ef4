pub mod Determined
pub mod Choices
