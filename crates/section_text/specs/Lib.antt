-- What must be believed of the sections of a restated text; then what an inner function answers.
pub mod Sections
pub mod Inside
