-- Laws of what is asked of a whole file.
pub mod Asking
pub mod Blocks
