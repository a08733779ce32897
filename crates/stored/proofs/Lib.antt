-- The laws of the stored lines of a shape, and of a walk from shape to shape.
pub mod Counted
pub mod Stored
pub mod Seeking
pub mod Walking
