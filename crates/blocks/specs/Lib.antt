-- What must be believed of chains and blocks.
pub mod Blocks
pub mod Inside
