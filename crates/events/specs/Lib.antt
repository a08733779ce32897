-- What must be believed of events by themselves; then what the inner functions answer.
pub mod Use
pub mod Align
pub mod Inside
