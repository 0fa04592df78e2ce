pub mod Images
pub mod Moments
pub mod Overwrites
pub mod Seen
