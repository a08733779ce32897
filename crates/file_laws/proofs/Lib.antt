-- The rows of a file are in range, its shapes stand one behind the other, its samples are few, reading it has one outcome; worked examples.
pub mod Padded
pub mod Steps
pub mod Ranges
pub mod Stacking
pub mod Ending
pub mod Unique
pub mod Examples
