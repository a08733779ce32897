-- The laws: what the numbers of a row in range are at most, and that lengths are exact.
pub mod Most
pub mod Exact
