-- What must be believed of reading a whole file, in the paper's order; then what the inner functions answer.
pub mod Reading
pub mod Inside
