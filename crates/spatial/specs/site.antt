-- A block in its tile: document 01, port order 7, and the standard's 7.10.2.
pub mod Site
