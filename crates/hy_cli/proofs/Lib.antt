pub mod Texts
pub mod Walks
pub mod Matches
pub mod Levels
pub mod Lines
pub mod Getters
pub mod Accepted
pub mod Refusals
pub mod Parsed
mod Rows
pub mod Building
