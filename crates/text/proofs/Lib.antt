-- What the proofs of several functions use, and the laws that callers cite.
pub mod Cases
pub mod Places
pub mod Cut
pub mod Clean
pub mod Blanks
pub mod Marks
pub mod Lines
pub mod Counted
pub mod Words
pub mod Short
pub mod Examples
