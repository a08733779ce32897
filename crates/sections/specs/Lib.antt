-- What must be believed of section lines and of VERSION, in the paper's order.
pub mod Sections
pub mod Entering
pub mod Version
