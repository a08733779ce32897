-- The laws of a set.
pub mod Ways
pub mod Keeping
pub mod Passing
