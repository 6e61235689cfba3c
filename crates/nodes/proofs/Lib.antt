pub mod DrawnLaws
pub mod BuiltLaws
pub mod CopyLaws
pub mod TurnLaws
pub mod TreeLaws
