-- What the functions of the crate promise: its laws.
pub mod Stands
pub mod Ground
pub mod Laws
