-- The laws of a set of small numbers.
pub mod Bits
