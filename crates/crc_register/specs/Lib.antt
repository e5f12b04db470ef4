pub mod Crc
pub mod Added
pub mod Division
pub mod Table
