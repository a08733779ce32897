-- The laws of the tables.
pub mod Numbers
pub mod Found
pub mod Meeting
