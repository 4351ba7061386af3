pub mod Totals
pub mod OwnEntries
pub mod Keeps
pub mod Seated
pub mod Turns
pub mod Fresh
pub mod Gathers
pub mod Standing
