-- The laws of the extra search.
pub mod Turns
pub mod Helds
pub mod Walks
pub mod Lengths
