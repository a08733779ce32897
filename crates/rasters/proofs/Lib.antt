-- The laws of rasters.
pub mod Reading
