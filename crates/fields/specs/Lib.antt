-- What must be believed of fields.
pub mod Fields
