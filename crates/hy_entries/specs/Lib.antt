pub mod Listing
pub mod LogEntries
