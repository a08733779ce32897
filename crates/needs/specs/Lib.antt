-- What must be believed of the rasters that restating needs.
pub mod Needs
