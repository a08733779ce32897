-- Laws of SHAPES in a restated text, that its lines are short, and worked examples.
pub mod Putting
pub mod Short
pub mod Examples
