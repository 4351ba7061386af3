-- What the public contracts rest on.
pub mod References
pub mod Chains
-- What the functions of the crate promise each other.
pub mod Places
