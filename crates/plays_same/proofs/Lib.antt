-- A file that is restated and read by the target's rules alone is accepted and plays the same.
pub mod Rasters
pub mod Ending
pub mod Durations
pub mod Tables
pub mod Back
pub mod Facts
pub mod Arrangement
pub mod Shapes
pub mod Lasting
pub mod Replay
pub mod Theorem
pub mod Rooms
pub mod Demand
