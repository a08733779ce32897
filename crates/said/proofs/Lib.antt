-- Laws of rows as a target edition says them, and that their lines are short.
pub mod Saying
pub mod Short
