pub mod Word
pub mod Folded
