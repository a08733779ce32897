-- What must be believed of the extensions of a restated text.
pub mod Extensions
