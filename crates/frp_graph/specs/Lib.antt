-- What public contracts rest on.
pub mod Trace
pub mod Applied
pub mod Roles
pub mod TypedProg
pub mod Values
pub mod Births
pub mod Sends
pub mod Equations
pub mod FirstValues
pub mod Moments
pub mod WellFormed
pub mod Links
pub mod Sound
pub mod Evidence
pub mod Candidates
pub mod Views
pub mod Limits
-- What the functions of the crate promise: its laws.
pub mod Laws
pub mod ShapeLaws
