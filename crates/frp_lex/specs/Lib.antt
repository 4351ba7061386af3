pub mod Gives
pub mod Bytes
pub mod Atoms
pub mod Quoted
pub mod Tokens
pub mod Spelling
pub mod Written
pub mod Laws
