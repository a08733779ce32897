-- What must be believed of texts, in the paper's order.
pub mod Lines
pub mod Marks
pub mod Blanks
pub mod Words
