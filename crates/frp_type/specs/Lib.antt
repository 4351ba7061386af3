pub mod Closed
pub mod Core
pub mod Known
pub mod Faults
pub mod Meaning
pub mod States
pub mod Laws
pub mod Rebuilding
