pub mod Computing
pub mod Traces
pub mod Evidences
