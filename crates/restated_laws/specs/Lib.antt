-- What must be believed of the limits of a text.
pub mod Limits
