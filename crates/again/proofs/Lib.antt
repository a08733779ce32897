-- The laws of the order of IDs, and of rows that repeat one.
pub mod Noting
pub mod Asking
