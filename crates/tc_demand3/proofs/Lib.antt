pub mod Demand3
pub mod Spares
pub mod Cases
pub mod Bits
pub mod Pinged
pub mod Beyond
