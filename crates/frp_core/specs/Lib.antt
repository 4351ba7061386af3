pub mod Small
pub mod Nodes
pub mod Engine
pub mod Core
