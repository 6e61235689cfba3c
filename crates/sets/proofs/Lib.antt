pub mod SetLaws
pub mod Parts
