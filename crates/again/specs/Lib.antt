-- What must be believed of the order of IDs and of the numbers that IDs are kept by; then what the inner functions answer.
pub mod Noting
pub mod Inside
