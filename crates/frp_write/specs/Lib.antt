pub mod Writing
pub mod Lawful
pub mod Places
pub mod RoundTrip
