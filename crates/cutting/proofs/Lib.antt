pub mod MoveLaws
pub mod CutLaws
