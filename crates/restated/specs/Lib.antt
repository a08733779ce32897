-- What must be believed of a restated text.
pub mod Text
