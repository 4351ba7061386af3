pub mod formers
pub mod Time
pub mod Name
pub mod Ty
pub mod Val
pub mod Laws
