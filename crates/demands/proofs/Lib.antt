-- The demands on reading, and on what restating refuses.
pub mod Answering
pub mod Passing
pub mod Lines
pub mod Ruling
pub mod Samples
pub mod Questions
pub mod Tables
pub mod Exactly
pub mod Refusing
pub mod Marked
pub mod Unique
