pub mod Drawn
pub mod LineLaws
pub mod LinesOnce
pub mod ComparisonOnce
pub mod Beginnings
