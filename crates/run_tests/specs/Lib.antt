pub mod Trial
pub mod Desk
