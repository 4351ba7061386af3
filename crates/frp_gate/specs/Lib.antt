-- what a caller reads
pub mod Entries
pub mod Passes
pub mod Outcomes
pub mod Laws
-- what the functions of the crate promise each other, and what the room's table keeps
pub mod Views
pub mod Rule
pub mod Steps
pub mod Calls
pub mod Seats
