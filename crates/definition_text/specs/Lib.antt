-- What must be believed of the section DEFINITIONS of a restated text.
pub mod Definitions
pub mod Inside
