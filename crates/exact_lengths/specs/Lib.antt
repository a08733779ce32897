-- What it means that tables are in range.
pub mod Tables
