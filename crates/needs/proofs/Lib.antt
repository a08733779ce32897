-- Laws of the rasters that restating needs.
pub mod Needing
