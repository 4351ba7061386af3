pub mod WindowLemmas
pub mod Sendings
pub mod Legals
pub mod Sendable
pub mod Counts
