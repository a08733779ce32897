-- What must be believed of a lent output.
pub mod Over
