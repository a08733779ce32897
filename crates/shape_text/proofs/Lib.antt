-- The laws of written shapes: samples and their bounds, runs of differences, lines laid over an output, and what writing answers; then that
-- written shapes read back as the same samples, that their lines are short, and that the outcome is unique.
pub mod Samples
pub mod Runs
pub mod Lines
pub mod Outcome
pub mod Examples
pub mod Reread
pub mod Figures
pub mod Counts
pub mod Longest
pub mod Sums
pub mod Unrolled
pub mod Back
pub mod Short
pub mod Unique
