-- The laws of section lines, and what several proofs use.
pub mod Sections
pub mod Answers
