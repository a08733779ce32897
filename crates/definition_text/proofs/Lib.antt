-- Laws of the section DEFINITIONS.
pub mod Putting
pub mod Defined
pub mod Shortness
pub mod Examples
