-- What must be believed of references.
pub mod References
