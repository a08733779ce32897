-- The laws of printed numbers, above all that they read back as themselves.
pub mod Digits
pub mod Writing
pub mod Parts
pub mod Back
pub mod Naturals
pub mod Figures
pub mod Examples
