-- What must be believed of stored lines, of values made samples, and of what expanding can answer, in the paper's order; then what the inner functions answer.
pub mod Stored
pub mod Samples
pub mod Answers
pub mod Inside
