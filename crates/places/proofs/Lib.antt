-- The laws of where a file stands, which several proofs use.
pub mod Answers
