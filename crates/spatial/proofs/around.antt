-- The laws of a block's surroundings.
pub mod Places
pub mod Steps
pub mod Chains
