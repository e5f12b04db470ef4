pub mod Report
pub mod Agree
pub mod Same
pub mod Determined
