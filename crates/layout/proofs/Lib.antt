-- Laws of the layouts: what is written is read again.
pub mod Starts
pub mod Pieces
pub mod Entries
pub mod Read
pub mod Ranges
pub mod Places
pub mod KeptFrame
pub mod KeptTile
