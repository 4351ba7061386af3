pub mod Outside
pub mod States
