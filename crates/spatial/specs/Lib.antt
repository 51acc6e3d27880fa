-- Spatial candidates: the standard's scan row, scan column and scan point processes (7.10.2.2 to 7.10.2.4) and what they add (7.10.2.7 to 7.10.2.9).
pub mod Take
pub mod Scan
pub mod site
pub mod neighbours
pub mod around
pub mod Code
