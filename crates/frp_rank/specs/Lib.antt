pub mod Chain
pub mod Order
pub mod Laws
pub mod Graph
pub mod Search
pub mod Plans
