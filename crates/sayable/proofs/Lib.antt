-- Laws of what a target edition cannot say.
pub mod Saying
