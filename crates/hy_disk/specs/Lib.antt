pub mod Content
pub mod Moments
pub mod Stops
pub mod Armed
