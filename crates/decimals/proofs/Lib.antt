-- The laws of decimal fields: parts, zeros, mantissas, exponents, pairs, what is kept; worked examples.
pub mod Parts
pub mod Zeros
pub mod Gathering
pub mod Mantissas
pub mod Powers
pub mod Pairs
pub mod Bodies
pub mod Plain
pub mod Kept
pub mod Examples
