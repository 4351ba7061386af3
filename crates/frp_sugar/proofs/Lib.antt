pub mod LawfulKept
pub mod CoreFiles
