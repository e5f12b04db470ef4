pub mod Determined
pub mod Readings
pub mod Shown
