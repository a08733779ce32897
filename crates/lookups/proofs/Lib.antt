-- Laws of what is looked up.
pub mod Looking
pub mod Spots
pub mod Unique
pub mod Empty
pub mod Examples
