-- The laws of lines that have a form of their own, and what several proofs use.
pub mod Names
pub mod Forms
pub mod Ranges
pub mod Examples
