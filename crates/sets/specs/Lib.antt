-- What must be believed of a set of numbers in a slice.
pub mod Sets
