pub mod Taken
pub mod RowLaws
pub mod InOrder
pub mod Filling
