-- The laws of expanding: values counted and found, samples judged, moves from state to state, the answers; that the outcome is unique.
pub mod Holding
pub mod Passing
pub mod Judging
pub mod Moves
pub mod Answers
pub mod Unique
