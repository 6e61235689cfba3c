pub mod TokenLaws
pub mod SaysLaws
pub mod DoneLaws
pub mod GoingLaws
pub mod ReadingLaws
