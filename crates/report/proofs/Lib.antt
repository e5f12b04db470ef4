pub mod Body
pub mod Example
pub mod Lines
pub mod Pages
pub mod Room
