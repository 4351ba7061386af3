pub mod Meaning
pub mod Numbers
