pub mod Pieces
pub mod Digits
pub mod Page
pub mod Ascii
