-- The laws of texts laid over an output, at once and part by part, and of a lent list cleared.
pub mod Over
pub mod Partly
pub mod Clear
pub mod Examples
