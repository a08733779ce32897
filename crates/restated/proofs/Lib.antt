-- Laws of a restated text.
pub mod Sections
