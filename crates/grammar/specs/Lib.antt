-- What must be believed of a line where a file stands, in the paper's order.
pub mod Parts
pub mod Definitions
pub mod Steps
