-- What must be believed of printed numbers.
pub mod Printed
