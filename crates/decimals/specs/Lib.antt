-- What must be believed of decimal fields; then what the inner functions answer.
pub mod Decimal
pub mod Inside
