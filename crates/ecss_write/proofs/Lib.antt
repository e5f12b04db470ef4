pub mod Totals
pub mod Parts
pub mod Over
pub mod Written
pub mod Calls
pub mod Determined
