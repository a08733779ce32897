-- The laws of the rules.
pub mod Alike
pub mod Filling
pub mod First
pub mod Kept
