pub mod RoundLaws
pub mod RoundsLaws
