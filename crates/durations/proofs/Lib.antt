-- Laws of delay rows made for durations.
pub mod Using
pub mod Firsts
pub mod Listing
pub mod Filling
pub mod Examples
