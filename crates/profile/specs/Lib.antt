pub mod Rules
pub mod Builder
