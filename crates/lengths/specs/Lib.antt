-- What must be believed of lengths.
pub mod Lengths
