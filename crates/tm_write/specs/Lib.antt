pub mod Report
pub mod Creator
