pub mod Exact
pub mod Told
pub mod Places
pub mod Changed
pub mod Given
pub mod Agree
pub mod Demand3
