pub mod Lent
pub mod Stays
pub mod Checks
