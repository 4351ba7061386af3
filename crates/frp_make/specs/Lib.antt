-- What public contracts rest on.
pub mod Making
-- What the functions of the crate promise each other.
pub mod Lines
pub mod Firsts
pub mod Search
pub mod Told
pub mod Bodies
