pub mod Parity
pub mod Burst
pub mod Powers
pub mod Order
pub mod Pair
pub mod Detect
pub mod UpToThree
pub mod Most
