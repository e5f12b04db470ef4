pub mod Version
pub mod Frame
pub mod Kind
