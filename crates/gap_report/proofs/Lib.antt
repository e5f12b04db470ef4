pub mod Body
pub mod Lines
pub mod Room
