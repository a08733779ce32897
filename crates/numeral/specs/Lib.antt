-- What must be believed of integer fields, of a kept decimal and of its worth, in the paper's order; then what the inner functions answer.
pub mod Digits
pub mod Integer
pub mod Kept
pub mod Worth
pub mod Inside
