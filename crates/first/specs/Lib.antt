pub mod Tries
pub mod Parts
