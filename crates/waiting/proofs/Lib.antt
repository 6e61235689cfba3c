pub mod WaitLaws
