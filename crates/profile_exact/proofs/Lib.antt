pub mod Exactly
pub mod First
pub mod Building
