-- What must be believed of written shapes; then what the inner functions answer.
pub mod Written
pub mod Inside
