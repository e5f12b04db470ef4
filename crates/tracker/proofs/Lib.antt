pub mod Checks
pub mod Entries
