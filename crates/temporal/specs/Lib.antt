-- Temporal candidates: the standard's temporal scan (7.10.2.5) and temporal sample (7.10.2.6) processes.
pub mod Temporal
pub mod Sweep
pub mod Code
