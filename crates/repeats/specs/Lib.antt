-- What must be believed of what is met again in a text; then what the inner functions answer.
pub mod Repeats
pub mod Once
pub mod Inside
