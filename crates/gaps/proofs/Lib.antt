pub mod Determined
pub mod Moves
pub mod Places
pub mod Scans
pub mod Turns
pub mod Walks
