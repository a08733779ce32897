-- The laws of rows written out; above all that a printed row reads back as that row.
pub mod Writing
pub mod Back
pub mod Zeros
