-- The laws of scans.
pub mod Notes
pub mod Scans
