-- A capture, opened and played.
pub mod Opened
pub mod Played
