-- What must be believed of what a target edition cannot say.
pub mod Sayable
