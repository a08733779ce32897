-- The laws of a line where a file stands, and what several proofs use.
pub mod Answers
pub mod Parts
pub mod ReadLines
