-- Laws of reading.
pub mod Judging
pub mod Unique
