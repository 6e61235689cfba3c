pub mod KindLaws
pub mod Ways
pub mod Sweeps
pub mod MarkLaws
