pub mod Lines
pub mod Comparison
pub mod Lent
