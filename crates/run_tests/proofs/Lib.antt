pub mod DeskLemmas
pub mod Crossing
