pub mod DotLaws
pub mod Lengths
