-- Laws of restating.
pub mod Saying
pub mod Unique
