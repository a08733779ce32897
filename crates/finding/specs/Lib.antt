-- What the hints hold that rows are found by. Nothing here needs to be believed: a hint is looked at.
pub mod Hints
