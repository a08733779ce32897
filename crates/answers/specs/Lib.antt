-- What must be believed of the answers of reading.
pub mod Outcome
pub mod Answers
