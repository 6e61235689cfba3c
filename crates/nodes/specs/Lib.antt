pub mod Fragments
pub mod Built
