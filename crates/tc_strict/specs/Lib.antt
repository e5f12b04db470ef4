pub mod Split
pub mod Verdict
