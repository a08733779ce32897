-- The stored lines of a restated text are its samples; and no word of it is met again.
pub mod Expanding
pub mod Front
pub mod Stored
pub mod Naming
pub mod Words
pub mod Once
