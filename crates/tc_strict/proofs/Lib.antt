pub mod Determined
pub mod Pieces
pub mod Verdicts
pub mod Walks
