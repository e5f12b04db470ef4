pub mod Write
pub mod Writer
