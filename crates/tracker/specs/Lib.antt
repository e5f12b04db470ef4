pub mod Reports
pub mod Refusals
pub mod Open
