-- What must be believed of the samples of a whole file's shapes; then what the inner functions answer.
pub mod Sampling
pub mod Inside
