pub mod GridLaws
pub mod ListLaws
