pub use Rattle.hy_base.specs.Faults
pub mod EndFailures
pub mod Memory
pub mod Streams
pub mod Whole
