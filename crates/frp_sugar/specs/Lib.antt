pub mod Made
pub mod Shapes
pub mod Table
pub mod Expanding
pub mod Derived
pub mod LawfulExpanding
pub mod Laws
