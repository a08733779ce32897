-- The laws of stored lines, counted and looked into, and of a value added to a sum.
pub mod Items
pub mod Spelling
pub mod Counting
pub mod Adding
