-- The laws of seeking a key, line by line.
pub mod Placing
pub mod Beyond
pub mod Seeking
