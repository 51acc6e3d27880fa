-- What holds of every answer of a search (7.10.2).
pub mod Sound
pub mod Reads
pub mod Same
