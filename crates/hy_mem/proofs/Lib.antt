mod Undoing
mod Growing
