pub mod Lines
mod Written
pub mod Waits
