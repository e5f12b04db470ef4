pub mod Answer
pub mod Bits
pub mod Fields
pub mod Header
pub mod Part
pub mod Wrote
