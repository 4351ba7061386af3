pub mod Appends
pub mod Modulus
pub mod Ranges
