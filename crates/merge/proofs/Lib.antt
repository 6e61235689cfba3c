pub mod NumberLaws
pub mod StandLaws
pub mod FrontLaws
