-- What must be believed of the stored lines of a shape; then what the inner functions answer.
pub mod Shapes
pub mod Places
pub mod Inside
