pub mod Sending
pub mod Reading
pub mod TooLarge
pub mod Runnable
pub mod Statuses
pub mod Complete
