-- Rows that say the same in two tables. Nothing here needs to be believed: theorems lead from it to what a file plays.
pub mod Alike
