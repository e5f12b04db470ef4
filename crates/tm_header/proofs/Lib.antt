pub mod Checks
pub mod Laws
pub mod Rows
pub mod Same
