pub mod Command
pub mod Creator
pub mod Builder
