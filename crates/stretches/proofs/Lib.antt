pub mod StretchLaws
pub mod CutLaws
pub mod LentLaws
