-- The laws of temporal candidates.
pub mod Aims
pub mod Sweeps
