-- The capture file (document 01, "Capture file").
pub mod File
pub mod player
