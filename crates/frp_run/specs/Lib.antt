pub mod Texts
pub mod Gives
pub mod Lines
pub mod Runs
pub mod Answers
