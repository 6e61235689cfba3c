pub mod KindLaws
pub mod Parting
pub mod Masks
