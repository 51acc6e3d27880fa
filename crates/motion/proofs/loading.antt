-- The laws of the definitions in specs/: the uses of a frame, the steps of a load, and what it leaves alone.
pub mod Usings
pub mod Steps
pub mod Outsides
