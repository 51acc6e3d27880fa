-- The laws of a search on lent bytes.
pub mod Laid
pub mod Stored
