-- What the tables of a file hold: each row its own numbers, in range, and shapes whose samples stand apart.
pub mod Stores
pub mod Laid
pub mod Whole
