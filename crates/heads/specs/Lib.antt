-- What must be believed of lines that have a form of their own.
pub mod Heads
