-- The laws of the definitions in specs/: what an admission shows, the turns of the loops, and what a reader may take from a save.
pub mod Areas
pub mod Walks
pub mod Saves
pub mod Saved
