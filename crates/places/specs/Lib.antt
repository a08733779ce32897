-- What must be believed of where a file stands.
pub mod Places
