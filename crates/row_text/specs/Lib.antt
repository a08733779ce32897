-- What must be believed of rows written out; then what the inner functions answer.
pub mod Printed
pub mod Inside
