pub mod CellLaws
pub mod StaysLaws
pub mod SizeLaws
pub mod CheckLaws
