pub mod OutcomeLaws
pub mod FirstNodes
pub mod RowsFront
pub mod Limits
pub mod StageLaws
pub mod OutcomesOnce
