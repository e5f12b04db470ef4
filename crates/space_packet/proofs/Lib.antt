pub mod Answers
pub mod Determined
pub mod Numbers
pub mod Parts
pub mod RoundTrip
pub mod Rows
pub mod Same
