-- The laws of references.
pub mod Classes
pub mod Meeting
