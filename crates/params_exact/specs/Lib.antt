pub mod Requests
pub mod Command
