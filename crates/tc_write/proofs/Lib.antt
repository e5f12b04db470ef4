pub mod Command
pub mod Agree
pub mod Same
pub mod Determined
pub mod Named
