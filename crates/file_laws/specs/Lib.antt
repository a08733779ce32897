-- What it means that the rows of a file are in range, and that its shapes stand one behind the other.
pub mod Ranges
pub mod Stacked
