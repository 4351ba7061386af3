-- What the contracts rest on.
pub mod Rings
pub mod Found
-- What the functions of the crate promise each other.
pub mod Search
