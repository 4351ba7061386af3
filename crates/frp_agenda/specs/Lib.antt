pub mod Due
pub mod Moving
