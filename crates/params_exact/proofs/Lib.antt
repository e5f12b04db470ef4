pub mod Machine
pub mod Inverse
pub mod Cut
pub mod Whole
pub mod Calls
