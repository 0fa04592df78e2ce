pub use Rattle.hy_base.specs.Faults
pub use Rattle.hy_disk.specs.Content
pub mod Files
