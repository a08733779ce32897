-- The laws of columns: their kinds as digits, and how many numbers a row has.
pub mod Columns
pub mod Widths
