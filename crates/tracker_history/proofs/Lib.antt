pub mod Calls
pub mod Come
pub mod Distinct
pub mod Exactly
pub mod Histories
