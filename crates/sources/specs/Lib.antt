-- What must be believed of what restating asks of its source.
pub mod Sources
