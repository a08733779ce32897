-- What must be believed of rasters.
pub mod Rasters
