pub mod Steps
pub mod Grounds
