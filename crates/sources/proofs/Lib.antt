-- Laws of what restating asks of its source.
pub mod Asking
