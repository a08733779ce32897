-- Laws of the extensions of a restated text.
pub mod Listing
