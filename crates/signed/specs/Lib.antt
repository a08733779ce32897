-- What must be believed of signed numbers.
pub mod Signed
