-- What must be believed of restating; then what the inner functions answer.
pub mod Outcome
pub mod Answers
pub mod Restating
pub mod Inside
