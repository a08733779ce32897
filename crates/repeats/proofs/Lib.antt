-- The laws of what is met again in a text.
pub mod Having
pub mod Twice
pub mod RowParts
pub mod Laid
pub mod Examples
