-- What must be believed of a set of small numbers.
pub mod Marks
