pub mod Content
pub mod Chunks
