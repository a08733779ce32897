-- The laws of lengths.
pub mod Measured
