pub use Rattle.hy_formats.specs.Texts
pub mod LineWords
