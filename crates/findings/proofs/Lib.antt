pub mod ByPlace
pub mod TableTest
