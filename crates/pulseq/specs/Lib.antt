-- What must be believed of the library's functions.
pub mod Exports
