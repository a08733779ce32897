-- The row of a file by its number.
pub mod Tables
