-- What must be believed of what is met again in a file; then what the inner functions answer.
pub mod Words
pub mod Again
pub mod Inside
