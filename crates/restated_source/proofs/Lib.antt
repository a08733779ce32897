-- A file that was accepted can be restated, and its text read back.
pub mod Labels
pub mod Order
pub mod Held
pub mod Listing
pub mod Forms
pub mod Source
pub mod Saying
pub mod Readable
