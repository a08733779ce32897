-- Laws of the library's functions, and worked examples.
pub mod Telling
pub mod Unique
pub mod Examples
