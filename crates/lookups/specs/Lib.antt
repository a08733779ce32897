-- What must be believed of what is looked up in a file.
pub mod Looking
pub mod Spots
