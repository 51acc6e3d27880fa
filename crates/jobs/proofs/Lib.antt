-- The laws of the definitions in specs/: the ways out of an admission and of a step.
pub mod Ranges
pub mod Admits
pub mod Steps
