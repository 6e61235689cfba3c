pub mod Functions
pub mod Exports
