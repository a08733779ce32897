-- What the proofs of several functions use, and the laws that callers cite.
pub mod Places
pub mod Cut
pub mod Fields
pub mod Walking
pub mod Visible
pub mod Examples
