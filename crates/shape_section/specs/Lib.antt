-- What must be believed of SHAPES in a restated text.
pub mod Shapes
