-- What must be believed of the table of rows.
pub mod Tables
