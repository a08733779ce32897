-- The laws of a whole file, and what several proofs use.
pub mod Walking
pub mod Stepping
pub mod Laying
pub mod Reading
pub mod Marking
