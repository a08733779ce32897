-- What must be believed of expanding stored values, in the paper's order; then what the inner functions answer.
pub mod Expand
pub mod Alone
pub mod Inside
