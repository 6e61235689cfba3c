-- what a round leaves
pub mod Refined
