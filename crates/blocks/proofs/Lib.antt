-- The laws of chains and blocks.
pub mod Timeless
pub mod Lasting
pub mod Asked
