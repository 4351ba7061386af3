-- What public contracts rest on.
pub mod History
pub mod Windows
pub mod Listeners
pub mod Legal
pub mod Sessions
-- What the functions of the crate promise: its laws.
pub mod Laws
