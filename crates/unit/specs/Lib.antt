-- What must be believed of times.
pub mod Time
