pub mod History
pub mod Tells
