pub mod PartLaws
pub mod SpineLaws
