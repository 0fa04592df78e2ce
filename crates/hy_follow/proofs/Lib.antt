pub mod Streams
pub mod Wholes
pub mod Judged
pub mod Rolled
pub mod Takes
pub mod Ones
