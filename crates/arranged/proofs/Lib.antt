-- Tables that hold the same rows in another order keep the same rules and play the same.
pub mod Lookup
pub mod Lasting
pub mod Blocks
pub mod Following
pub mod Playing
pub mod Turning
