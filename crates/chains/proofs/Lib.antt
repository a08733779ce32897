-- The laws of extension chains.
pub mod Following
