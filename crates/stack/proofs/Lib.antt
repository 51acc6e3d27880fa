-- The laws of the definitions in specs/.
pub mod Helds
pub mod Adds
pub mod Counts
pub mod Maps
pub mod Moves
pub mod Carries
pub mod Clips
pub mod Answers
