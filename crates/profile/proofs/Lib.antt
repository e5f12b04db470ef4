pub mod Determined
pub mod Commands
