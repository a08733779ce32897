-- What must be believed of the definitions of a file and of a site.
pub mod Definitions
pub mod Places
