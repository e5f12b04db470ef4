pub mod Checks
pub mod Forms
pub mod Spares
pub mod Laws
pub mod Flags
pub mod Rows
pub mod Same
