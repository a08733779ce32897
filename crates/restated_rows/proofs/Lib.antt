-- The rows of a restated text are the source's, arranged by section.
pub mod Sectioned
pub mod Own
pub mod Source
pub mod Retold
pub mod Standing
pub mod Sections
pub mod Keys
pub mod Whole
pub mod Arranged
pub mod Once
pub mod Order
pub mod Text
