-- What must be believed of delay rows made for durations.
pub mod Durations
