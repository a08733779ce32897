-- What must be believed of what is asked of a whole file; then what the inner functions answer.
pub mod Asked
pub mod Inside
