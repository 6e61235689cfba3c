pub mod Cases
pub mod Writings
pub mod Numbers
pub mod RunLaws
pub mod RowLaws
pub mod Lengths
pub mod Answered
pub mod TextsOnce
