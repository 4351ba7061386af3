pub mod Lists
pub mod Least
pub mod Indices
pub mod Turning
pub mod Placing
pub mod Chaining
pub mod Reading
