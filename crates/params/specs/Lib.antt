pub mod Parameters
pub mod Request
pub mod Places
