-- What must be believed of lines read as rows; then what the inner functions answer.
pub mod Cells
pub mod Placed
pub mod Inside
