pub mod Changed
pub mod Demand3
