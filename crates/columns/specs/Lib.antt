-- What must be believed of columns and of the rows by them, in the paper's order; then what the inner functions answer.
pub mod Columns
pub mod Rows
pub mod Ranges
pub mod Inside
