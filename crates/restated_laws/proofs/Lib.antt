-- A restated text keeps the paper's limits; and its lines read back.
pub mod Cut
pub mod Sections
pub mod Rows
pub mod Within
pub mod Going
pub mod RowBack
pub mod SectionBack
pub mod Ranging
pub mod ListedBack
pub mod ShapeBack
pub mod DefinedBack
pub mod DefinedSection
pub mod DefinedFound
pub mod TextBack
pub mod WholeBack
