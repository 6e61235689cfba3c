pub mod TriesLaws
pub mod AnswerLaws
pub mod FirstOnce
