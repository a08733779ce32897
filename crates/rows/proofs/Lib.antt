-- The laws of lines read as rows: cells, rows, digits gathered, numbers in range; lines where they stand in a text; worked examples.
pub mod Cells
pub mod Rows
pub mod Along
pub mod Digits
pub mod Numbers
pub mod Blocks
pub mod CutRows
pub mod Ranges
pub mod Examples
