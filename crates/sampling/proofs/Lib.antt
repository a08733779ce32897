-- The laws of a whole file's samples; that the outcome is unique; what each shape's part holds; worked examples.
pub mod Failing
pub mod Laying
pub mod Unique
pub mod Parts
pub mod Examples
