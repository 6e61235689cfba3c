pub mod AnswersOnce
pub mod ReadingLaws
