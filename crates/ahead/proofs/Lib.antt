pub mod AheadLaws
pub mod PlaceLaws
pub mod SearchLaws
