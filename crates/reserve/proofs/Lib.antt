pub mod Reserved
pub mod Filled
