-- The laws of files of which no line is at fault, and of lines that are passed over.
pub mod Over
pub mod Sound
pub mod Left
pub mod Reaching
