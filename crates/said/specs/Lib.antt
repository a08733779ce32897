-- What must be believed of rows as a target edition says them.
pub mod Said
