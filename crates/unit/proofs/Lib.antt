-- The laws of times, for callers.
pub mod Exact
pub mod Examples
