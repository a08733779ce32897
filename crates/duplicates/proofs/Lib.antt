-- The laws of what is met again in a file.
pub mod Lines
pub mod Seeking
pub mod Naming
pub mod Beyond
pub mod Rising
pub mod First
pub mod Again
pub mod Parts
pub mod WordParts
pub mod Passed
pub mod Examples
