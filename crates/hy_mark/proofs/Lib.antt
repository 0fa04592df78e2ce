pub mod Widths
pub mod Covers
pub mod Deps
pub mod Ordering
pub mod Writing
pub mod Known
