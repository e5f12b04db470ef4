pub mod Within
pub mod First
