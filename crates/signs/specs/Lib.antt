pub mod Signs
pub mod Answers
pub mod Counts
