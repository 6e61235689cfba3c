pub mod FirstLaws
pub mod ListLaws
pub mod KeptLaws
pub mod RunLaws
