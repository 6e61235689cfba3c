pub mod Leaving
pub mod SameClosing
pub mod Listable
pub mod RowByRow
