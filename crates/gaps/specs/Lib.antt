pub mod Gaps
pub mod Records
