-- The laws of integer fields and of a decimal's worth, and what several proofs use.
pub mod Digits
pub mod Integer
pub mod Reading
pub mod Parts
pub mod Scaling
pub mod Outcomes
