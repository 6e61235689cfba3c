pub mod Lines
pub mod Programs
