-- The laws of events by themselves.
pub mod Fitting
pub mod Marking
