-- The laws of noting hints. Rows are found by the laws of the tables.
pub mod Noting
