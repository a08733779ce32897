-- The laws of signed numbers: for the proofs of this crate, and for callers in others.
pub mod Machine
pub mod Difference
pub mod Sign
pub mod Examples
