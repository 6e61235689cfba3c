pub mod Parts
pub mod Spine
