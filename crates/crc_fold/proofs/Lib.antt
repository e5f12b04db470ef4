pub mod Loop
mod Basis
mod Rows
mod Fold
mod Word
