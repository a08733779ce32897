-- What must be believed of extension chains.
pub mod Chains
