pub mod Writing
pub mod Runs
pub mod RunsLeft
pub mod Texts
