pub mod ProgramLaws
pub mod ProgramKeeps
