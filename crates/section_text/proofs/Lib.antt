-- Laws of the sections of a restated text.
pub mod Putting
