-- What must be believed of a whole file, in the paper's order; then what the inner functions answer.
pub mod Whole
pub mod Outcome
pub mod Rows
pub mod Marks
pub mod Steps
pub mod Inside
